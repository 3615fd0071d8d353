-- The laws of this crate.
-- Assumes nothing.
pub mod Sums
pub mod Splits
pub mod Examined
pub mod Promised
