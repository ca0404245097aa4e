pub mod Passed
pub mod Shown
