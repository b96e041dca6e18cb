pub mod Texts
pub mod Sessions
pub mod Told
pub mod Promises
