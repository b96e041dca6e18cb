pub mod Writing
pub mod Placing
pub mod Worked
