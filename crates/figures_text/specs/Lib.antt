pub mod Table
pub mod Summaries
pub mod SeriesText
pub mod Steps
