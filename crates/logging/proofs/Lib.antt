pub mod Choices
pub mod Sorts
pub mod Halves
pub mod Good
pub mod Lists
pub mod Lent
