mod First
pub mod Judged
mod NodeShown
mod Elsewhere
pub mod States
pub mod Sent
pub mod TakenOut
