pub mod Lookahead
pub mod Groups
pub mod Windows
pub mod Standing
pub mod Calls
pub mod Schedules
pub mod LineCode
