-- What carrying out a call leaves.
pub mod Carried
