pub mod Steps
pub mod Recorded
