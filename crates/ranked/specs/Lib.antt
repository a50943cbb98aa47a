-- The rules of ranked lists, in the order in which to read them.
pub mod Ranking
pub mod Lex
pub mod Held
pub mod Laws
