-- Definitions of the crate. Assumes nothing.
pub mod Told
