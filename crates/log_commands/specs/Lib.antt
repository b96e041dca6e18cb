pub mod Reading
pub mod Spelled
