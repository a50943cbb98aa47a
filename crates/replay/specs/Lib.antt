-- What a session says, calls and prints, in the order in which to read it.
pub mod Commands
pub mod Calls
pub mod Sessions
pub mod Texts
