-- The definitions and promises of this crate.
-- Assumes nothing.
pub mod Page
pub mod Clauses
pub mod Claims
pub mod Examples
