-- The laws of letters, and of the loops that read, write and compare them.
-- Assumes nothing.
pub mod Letters
pub mod Reading
pub mod Flat
pub mod Writing
pub mod Part
