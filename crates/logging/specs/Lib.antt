pub mod Sorts
pub mod Logging
pub mod Listing
pub mod Replay
