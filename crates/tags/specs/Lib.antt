pub mod Tags
pub mod Grounds
