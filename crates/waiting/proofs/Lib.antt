-- The laws of this crate.
-- Assumes nothing.
pub mod Copies
pub mod Bytes
pub mod Texts
pub mod Queues
