-- The laws of this crate.
-- Assumes nothing.
pub mod Cut
pub mod Stores
pub mod Copying
pub mod Standing
