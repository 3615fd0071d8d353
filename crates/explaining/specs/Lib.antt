-- The definitions and promises of this crate.
-- Assumes nothing.
pub mod Explain
pub mod Clauses
pub mod Claims
