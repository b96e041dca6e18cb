pub mod Lane
pub mod Calls
pub mod Taken
pub mod Laws
pub mod Answers
