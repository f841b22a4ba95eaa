pub mod Rejection
pub mod Frame
pub mod Saying
pub mod Show
pub mod Decoding
pub mod Promise
pub mod Video
pub mod Examples
