pub mod Walks
pub mod Watched
pub mod Thinned
pub mod Shown
pub mod Kept
pub mod Faults
pub mod Batches
pub mod Aims
pub mod Moments
pub mod Alone
pub mod Between
pub mod Found
pub mod DropsFound
pub mod StallsFound
pub mod LastEvents
mod Backward
mod UnderWay
mod Counting
mod Passing
