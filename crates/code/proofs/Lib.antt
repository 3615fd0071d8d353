-- The laws of this crate.
-- Assumes nothing.
pub mod Entries
pub mod RoundTrip
pub mod FirstZero
pub mod Parts
pub mod Turn
pub mod Scope
pub mod Refusals
