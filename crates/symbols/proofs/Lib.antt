pub mod Exponent
pub mod Limits
pub mod ReadBack
pub mod ReadSteps
pub mod WriteSteps
