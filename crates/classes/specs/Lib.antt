pub mod Lane
pub mod Calls
pub mod Answers
pub mod Laws
