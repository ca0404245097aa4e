pub mod Names
pub mod Stalled
pub mod FlowStatus
pub mod Waits
pub mod Laws
