pub mod Plans
pub mod Cells
pub mod Notes
pub mod Promised
pub mod Refused
