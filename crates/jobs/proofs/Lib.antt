-- The laws of job records.
pub mod Named
pub mod Plays
pub mod Steps
pub mod Tight
