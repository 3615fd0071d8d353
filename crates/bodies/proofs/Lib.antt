-- The laws of this crate.
-- Assumes nothing.
pub mod Ways
pub mod Extents
pub mod Storing
pub mod Lifting
pub mod Endings
pub mod Finding
pub mod Splitting
pub mod Binding
pub mod Places
pub mod Putting
pub mod Meaning
pub mod Using
