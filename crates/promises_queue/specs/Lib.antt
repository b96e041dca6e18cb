pub mod Packets
pub mod Notes
pub mod Promised
pub mod Refused
