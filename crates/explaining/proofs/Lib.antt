pub mod Differences
pub mod Telling
pub mod Promised
