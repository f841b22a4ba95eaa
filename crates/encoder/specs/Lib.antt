pub mod Choice
pub mod Progress
pub mod Code
pub mod Measure
pub mod Session
pub mod Promise
