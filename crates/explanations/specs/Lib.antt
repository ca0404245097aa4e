pub mod Counterexample
pub use Rattle.scenario_image.specs.Fault
