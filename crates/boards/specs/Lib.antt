pub mod Limits
pub mod Board
pub mod Lawfulness
