pub mod Sharing
pub mod Subcommand
pub mod Wishes
pub mod CommandLine
pub mod Given
