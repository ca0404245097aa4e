pub mod RunsOn
pub mod Watched
pub mod BothHave
pub mod RunsBefore
