pub mod Bytes
pub mod Faults
pub mod Layout
pub mod Pgm
pub mod Picture
pub mod Promise
pub mod Y4m
