-- The laws of this crate.
-- Assumes nothing.
pub mod Numbers
pub mod Rules
pub mod Measures
pub mod Falls
pub mod States
pub mod Waits
pub mod Enter
pub mod Entering
pub mod Cases
pub mod Turning
pub mod Loop
pub mod Beginning
