-- The definitions of this crate.
-- Assumes nothing.
pub mod Letters
pub mod Clauses
