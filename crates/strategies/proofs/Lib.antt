pub mod Walks
pub mod Divisors
pub mod Tests
pub mod Checks
pub mod Places
