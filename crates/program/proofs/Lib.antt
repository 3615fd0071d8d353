-- The laws of this crate.
-- Assumes nothing.
pub mod Ascii
pub mod Told
