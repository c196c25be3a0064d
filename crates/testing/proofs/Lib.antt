-- The laws of lines and checksums, and tightness.
pub mod Steps
pub mod Tight
