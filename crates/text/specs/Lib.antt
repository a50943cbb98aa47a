pub mod Printable
pub mod Words
