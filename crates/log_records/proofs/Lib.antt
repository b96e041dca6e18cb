pub mod Found
pub mod Records
