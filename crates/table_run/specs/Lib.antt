pub mod State
pub mod Flow
pub mod Sound
pub mod Laws
