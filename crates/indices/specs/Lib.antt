-- The definitions and contracts of this crate.
-- Assumes nothing.
pub mod Stack
pub mod Passes
