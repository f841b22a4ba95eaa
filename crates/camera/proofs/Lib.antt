pub mod Fields
pub mod Ranges
