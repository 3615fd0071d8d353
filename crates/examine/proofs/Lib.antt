-- The laws of this crate.
-- Assumes nothing.
pub mod Laws
pub mod Pending
pub mod Running
