pub mod Decimal
pub mod Taken
pub mod Fields
pub mod Digits
pub mod Placing
pub mod Input
pub mod Feeding
pub mod Keeping
