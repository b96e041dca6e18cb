pub mod Events
pub mod Rules
pub mod Views
pub mod Promised
pub mod Refused
pub mod Answering
pub mod Run
pub mod Promises
