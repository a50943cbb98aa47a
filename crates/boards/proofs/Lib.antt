pub mod Boards
pub mod Requotes
