pub mod NextLoss
pub mod Cases
pub mod Tales
pub mod FateLaw
pub mod StepLaws
pub mod Rises
pub mod CodelLaws
