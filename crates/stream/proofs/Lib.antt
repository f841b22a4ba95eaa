pub mod Steps
pub mod Knowing
pub mod Standing
pub mod Screens
pub mod OverRuns
