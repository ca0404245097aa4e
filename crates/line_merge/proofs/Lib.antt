pub mod Sheaves
pub mod Cuts
pub mod Rests
mod Ahead
pub mod Sent
pub mod Times
