-- The steps of the code, in the words of the rules.
pub mod Stepping
