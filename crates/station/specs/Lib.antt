pub mod Calls
pub mod Answers
pub mod InKind
pub mod Laws
