pub mod Values
pub mod Seen
pub mod Breaks
