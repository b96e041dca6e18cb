pub mod Times
pub mod Promised
pub mod Refused
