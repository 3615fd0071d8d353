-- The laws of this crate.
-- Assumes nothing.
pub mod Lowering
pub mod Tails
pub mod Couples
pub mod Removing
pub mod Filling
pub mod Storing
pub mod Writing
pub mod Substituting
