pub mod Reasons
pub mod Stations
pub mod Refusals
