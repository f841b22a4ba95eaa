pub mod Line
pub mod Promise
pub mod Text
pub mod Placing
