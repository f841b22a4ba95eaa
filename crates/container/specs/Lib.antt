pub mod Container
pub mod HeaderLine
pub mod Promise
pub mod Reader
pub mod Within
pub mod Writing
