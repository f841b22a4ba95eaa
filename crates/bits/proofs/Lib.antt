pub mod Positions
pub mod Prefixes
pub mod Adding
