pub mod Transform
pub mod Promise
pub mod Stages
pub mod Picture
pub mod Prediction
pub mod Syntax
