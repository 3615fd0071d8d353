-- The laws of this crate.
-- Assumes nothing.
pub mod Computed
pub mod Cells
pub mod Lines
pub mod Writing
pub mod Promised
