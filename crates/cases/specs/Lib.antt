pub mod Table
pub mod Closing
pub mod OwnDeadline
pub mod Worked
pub mod BadNumbers
pub mod EveryT
pub mod Fields
