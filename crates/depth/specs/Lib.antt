-- The rules of depth books, in the order in which to read them.
pub mod Limits
pub mod Lots
pub mod Soundness
pub mod Lawfulness
pub mod Meaning
pub mod Post
pub mod Withdraw
pub mod Take
pub mod Running
