-- The laws of a read.
pub mod Reading
