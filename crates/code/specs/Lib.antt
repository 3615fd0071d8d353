-- The definitions and promises of this crate.
-- Assumes nothing.
pub mod Limits
pub mod Refusals
pub mod Code
pub mod Scope
pub mod Claims
