-- The lemmas on the table of strategies, and on what each call does.
pub mod Tables
pub mod Dids
pub mod Asked
pub mod Asking
