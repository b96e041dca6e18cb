pub mod Arrivals
pub mod Heaviest
pub mod Conditions
pub mod Example
pub mod Needed
pub mod Guarantee
