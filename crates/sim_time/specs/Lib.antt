pub mod Moment
pub mod Keys
pub mod Serial
pub mod InitialWindow
pub mod ControlLaw
pub mod QueueLimits
