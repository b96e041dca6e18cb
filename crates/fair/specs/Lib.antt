pub mod Lane
pub mod Calls
pub mod Laws
