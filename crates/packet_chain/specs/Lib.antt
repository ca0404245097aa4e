pub mod Counted
pub mod Stamped
pub mod Links
pub mod Ownership
pub mod PacketBytes
