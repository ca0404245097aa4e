pub mod Received
pub mod LeastMissing
pub mod Laws
pub mod Kept
pub mod Place
pub use Rattle.sim_time.specs.Moment
