pub mod Recorded
pub mod Laws
