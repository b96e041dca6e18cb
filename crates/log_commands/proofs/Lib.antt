pub mod Words
pub mod Ways
pub mod Spelled
