-- The laws of this crate.
-- Assumes nothing.
pub mod Origins
pub mod Depths
pub mod Measuring
