pub mod Grammar
pub mod Reading
pub mod Printing
pub mod Whole
pub mod Steps
pub mod Answered
pub mod Laws
