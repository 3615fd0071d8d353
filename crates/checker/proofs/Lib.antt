pub mod Left
pub mod Checking
