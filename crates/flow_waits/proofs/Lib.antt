mod Gathered
mod Reported
pub mod Any
pub mod Waiting
mod Totals
pub mod Pending
pub mod Found
