-- The definitions and promises of this crate.
-- Assumes nothing.
pub mod Answers
pub mod Claims
