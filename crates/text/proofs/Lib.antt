pub mod Cutting
pub mod Digits
pub mod Gathering
pub mod LaidOut
pub mod ReadBack
pub mod Spacing
pub mod Steps
