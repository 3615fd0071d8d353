-- The laws of this crate.
-- Assumes nothing.
pub mod Grounds
pub mod Leading
pub mod Replaying
pub mod Bodies
pub mod Runs
pub mod Answers
