pub mod Coding
pub mod Probabilities
pub mod Decisions
pub mod Bottom
pub mod Promises
pub mod Stores
