pub mod Run
pub mod Numbers
pub mod Order
pub mod Bytes
pub mod Sessions
pub mod Texts
pub mod Promises
