-- The definitions and promises of this crate.
-- Assumes nothing.
pub mod Bounds
pub mod Verdict
pub mod Claims
pub mod Examples
