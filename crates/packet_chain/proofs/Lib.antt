pub mod Bytes
pub mod Crossing
pub mod Linked
pub mod Sharing
pub mod Steps
