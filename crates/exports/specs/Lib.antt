-- The contracts of the exported calls.
-- Assumes nothing.
pub mod Numbers
