-- The definitions, promises and inner contracts of this crate.
-- Assumes nothing.
pub mod Sets
pub mod Claims
pub mod Clauses
