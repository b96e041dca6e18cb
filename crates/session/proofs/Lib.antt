pub mod Going
pub mod Pieces
