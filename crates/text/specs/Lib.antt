pub mod Decimal
pub mod Reading
pub mod Lines
pub mod Input
pub mod Feeding
pub mod Spelled
pub mod Keeping
