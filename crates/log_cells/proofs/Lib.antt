pub mod Found
pub mod Own
