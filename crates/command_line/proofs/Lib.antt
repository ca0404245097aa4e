pub mod Options
pub mod NoKinds
pub mod OptionRows
pub mod OptionWalk
pub mod Naming
pub mod Requests
pub mod Commands
