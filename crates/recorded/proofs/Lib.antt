pub mod Held
pub mod Wrote
