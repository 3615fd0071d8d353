-- The laws of this crate.
-- Assumes nothing.
pub mod Counting
pub mod Reading
mod Writing
