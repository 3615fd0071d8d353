-- The laws of this crate.
-- Assumes nothing.
pub mod Opening
pub mod Writing
pub mod Promised
