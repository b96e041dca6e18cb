pub mod Differ
pub mod Ends
pub mod Starts
