pub mod Bytes
pub mod Numbered
pub mod Parted
pub mod ResultTables
pub mod ResultTableSent
