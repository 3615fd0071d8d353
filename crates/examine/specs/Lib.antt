-- The definitions and promises of this crate.
-- Assumes nothing.
pub mod Inspect
pub mod OneByte
pub mod Clauses
pub mod Claims
