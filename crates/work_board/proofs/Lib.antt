pub mod Faults
pub mod Steps
pub mod Clearing
pub mod Sent
pub mod Refuted
