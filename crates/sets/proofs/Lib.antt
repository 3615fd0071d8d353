-- The laws of this crate.
-- Assumes nothing.
pub mod Heads
pub mod Answers
pub mod Passes
