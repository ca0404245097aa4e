pub mod Next
pub mod Laws
pub mod Sets
pub mod Rising
pub mod Kept
pub mod Replies
