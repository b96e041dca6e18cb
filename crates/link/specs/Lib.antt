pub mod Verdict
pub mod Limits
pub mod Demand
pub mod Rate
pub mod Verdicts
pub mod Answers
pub mod Published
