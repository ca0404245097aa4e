pub mod Sweeps
pub mod WindowOutcomes
pub mod Edges
pub mod Laid
pub mod TextStates
pub use Rattle.window_text.specs.Puts
pub use Rattle.window_text.specs.Parts
pub use Rattle.window_text.specs.PendingText
