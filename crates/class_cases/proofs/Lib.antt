pub mod Fans
pub mod Ways
pub mod Inner
pub mod Limit
pub mod Trees
pub mod Parts
pub mod ShutOut
