pub mod Checks
pub mod Digits
pub mod Signs
pub mod Written
