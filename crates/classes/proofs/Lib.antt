pub mod Cases
pub mod Refused
pub mod Given
