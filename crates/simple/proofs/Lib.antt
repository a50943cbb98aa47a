-- The lemmas on simple books.
pub mod Bests
