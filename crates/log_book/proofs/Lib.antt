pub mod Steps
pub mod Pieces
