-- The lemmas on ranked lists.
pub mod Lists
pub mod Finds
pub mod Shifts
pub mod Inserts
pub mod Removals
pub mod Replacements
pub mod Lexes
pub mod Keys
