pub mod Laws
pub mod Links
pub mod Senders
pub mod Forwarding
pub mod Timing
pub mod Waits
pub mod Setup
pub mod Marks
