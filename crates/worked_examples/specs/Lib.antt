-- The examples.
-- Assumes nothing.
pub mod Table
