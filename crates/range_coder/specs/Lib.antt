pub mod Store
pub mod Coding
pub mod Decisions
pub mod Code
pub mod Promise
