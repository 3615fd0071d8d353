-- The laws of this crate.
-- Assumes nothing.
pub mod Stacked
pub mod Pending
pub mod Walk
pub mod Replace
