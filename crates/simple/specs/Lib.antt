pub mod Limits
pub mod Lots
pub mod Best
pub mod Take
pub mod BestTold
pub mod TakeMoved
