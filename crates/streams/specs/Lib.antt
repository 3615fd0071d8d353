-- The contracts of this crate.
-- Assumes nothing.
pub mod Clauses
