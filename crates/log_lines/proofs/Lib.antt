pub mod Shown
pub mod Spelled
