pub mod Words
mod Parting
mod Times
mod Gathering
pub mod Listed
mod Parted
