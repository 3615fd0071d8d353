-- The definitions and contracts of this crate.
-- Assumes nothing.
pub mod State
pub mod Clauses
