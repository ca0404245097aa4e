pub mod Gathered
pub mod Keyed
pub mod Leading
pub mod Replayed
pub mod Timed
pub mod Tournament
pub mod Words
