-- The laws of a list's sound and of its stem.
pub mod Laying
pub mod Ways
pub mod Followed
pub mod Sounds
pub mod Whole
pub mod Tight
