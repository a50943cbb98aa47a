pub mod Soundness
pub mod Split
pub mod Sums
pub mod Pricing
pub mod Search
pub mod Trades
pub mod Taking
pub mod Marketing
