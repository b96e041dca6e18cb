pub mod Hands
pub mod Numbers
pub mod Heard
pub mod Texts
pub mod Steps
pub mod Pieces
pub mod Answered
pub mod Laws
