pub mod Class
pub mod Reading
pub mod Saying
pub mod Promise
