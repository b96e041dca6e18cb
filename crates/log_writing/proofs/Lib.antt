pub mod Writing
pub mod Pieces
pub mod Wrote
pub mod Worked
