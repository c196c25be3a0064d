-- Calls and starts put into words, and two outcomes of each coincide.
pub mod Calls
pub mod Tight
