pub mod Judging
pub mod Judged
