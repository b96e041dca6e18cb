pub mod Marks
pub mod Sorts
pub mod Logged
pub mod Worked
pub mod Numbers
pub mod Promises
