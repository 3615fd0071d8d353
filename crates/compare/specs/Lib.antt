-- The contracts of this crate.
-- Assumes nothing.
pub mod Answers
pub mod Replays
pub mod Compares
pub mod Sides
