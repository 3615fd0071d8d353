-- The definitions and contracts of this crate.
-- Assumes nothing.
pub mod Ways
pub mod Reasons
pub mod Held
pub mod Finding
pub mod Moving
pub mod Putting
