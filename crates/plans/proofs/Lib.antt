pub mod Numbered
pub mod Judged
pub mod Rules
