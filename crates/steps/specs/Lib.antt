-- The definitions and contracts of this crate.
-- Assumes nothing.
pub mod Lowering
pub mod Couples
pub mod Filling
