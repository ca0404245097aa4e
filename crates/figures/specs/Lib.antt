pub mod Classes
pub mod Tallied
pub mod Laws
pub mod Turns
pub mod Senders
pub mod Moments
pub mod Figures
pub mod Links
