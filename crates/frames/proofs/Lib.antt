-- The laws of this crate.
-- Assumes nothing.
pub mod Entries
pub mod Laws
