-- The rules of strategies, in the order in which to read them.
pub mod Limits
pub mod Legs
pub mod Lawful
pub mod Rows
pub mod Strategies
pub mod Worked
