pub mod Cases
pub mod Answering
pub mod Told
