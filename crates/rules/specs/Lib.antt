-- The rules of the strategy book, in the order in which to read them.
pub mod Limits
pub mod Orders
pub mod Steps
pub mod States
pub mod Events
pub mod Calls
pub mod Questions
pub mod Runs
pub mod Laws
pub mod Worked
