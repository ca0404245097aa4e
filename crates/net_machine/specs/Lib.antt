pub mod Due
pub mod Run
pub mod Nodes
pub mod Wiring
pub mod Codes
pub mod NetOf
pub mod Region
