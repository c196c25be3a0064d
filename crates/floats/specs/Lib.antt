-- The numbers that every other crate's definitions are written in.
pub mod F32
pub mod Units
pub mod Helpers
pub mod Tightness
