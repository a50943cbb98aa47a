pub mod Hold
pub mod Lawfulness
