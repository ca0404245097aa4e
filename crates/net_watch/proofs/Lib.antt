pub mod Watching
pub mod Alone
pub mod Early
