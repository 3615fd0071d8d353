-- The definitions of this crate.
-- Assumes nothing.
pub mod Answer
pub mod Clauses
