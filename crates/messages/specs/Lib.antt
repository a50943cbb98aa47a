pub mod Bits
pub mod Codes
pub mod Limits
pub mod Layout
pub mod Reading
pub mod Passing
pub mod Writing
pub mod Laws
