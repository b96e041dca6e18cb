pub mod Texts
pub mod Sessions
pub mod Agree
pub mod Told
pub mod Promises
