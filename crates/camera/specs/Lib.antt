pub mod Packed
pub mod Camera
