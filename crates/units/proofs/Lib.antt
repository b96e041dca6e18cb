pub mod Limits
pub mod Charges
pub mod Refusals
