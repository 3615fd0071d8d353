-- The definitions and contracts of this crate.
-- Assumes nothing.
pub mod Texts
pub mod Clauses
