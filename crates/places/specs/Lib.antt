pub mod Members
pub mod Places
pub mod Choice
pub mod Marks
pub mod Numbers
