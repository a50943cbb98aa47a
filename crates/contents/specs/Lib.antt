pub mod Editions
pub mod Faults
pub mod Legs
pub mod Sides
pub mod Times
