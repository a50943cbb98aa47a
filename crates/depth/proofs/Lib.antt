-- Lemmas of depth books, each file for one subject.
pub mod Runs
pub mod Changes
pub mod Takes
pub mod Sides
pub mod Wholes
pub mod Inserts
pub mod Removes
pub mod Kept
pub mod Admits
pub mod Trades
