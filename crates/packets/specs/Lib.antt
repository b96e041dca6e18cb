pub mod Queue
pub mod Quotes
pub mod Kept
pub mod Calls
pub mod Answers
pub mod Laws
