pub mod Merged
pub mod Ahead
pub mod Batches
pub mod Sheaves
pub mod SheafCode
pub mod SheafOf
pub mod BatchCode
pub mod BatchOf
