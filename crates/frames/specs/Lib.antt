-- The definitions and promises of this crate.
-- Assumes nothing.
pub mod Stored
pub mod Claims
