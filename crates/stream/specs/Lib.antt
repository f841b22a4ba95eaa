pub mod Receiver
pub mod Promise
pub mod Screen
pub mod Runs
