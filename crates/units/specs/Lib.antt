pub mod Limits
pub mod Refusals
pub mod Charges
pub mod Answers
pub mod Radio
