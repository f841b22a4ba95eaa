pub mod Arguments
pub mod Packets
pub mod Refusals
pub mod Source
