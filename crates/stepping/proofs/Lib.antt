-- The lemmas on orders by number, the best of a side, legs taken and steps one after another.
pub mod Places
pub mod Bests
pub mod Chosen
pub mod Takes
pub mod Going
