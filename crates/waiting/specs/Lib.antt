-- The definitions and contracts of this crate.
-- Assumes nothing.
pub mod Waiting
pub mod Writing
