pub mod Order
pub mod Run
pub mod Bytes
pub mod Sessions
pub mod Texts
pub mod Promises
