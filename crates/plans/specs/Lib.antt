pub mod Numbered
pub mod Plans
