-- The crossings of a sample and their counts, a hard sync reset, and the triangle.
pub mod Counted
pub mod CrossingLoop
pub mod Sync
pub mod Synced
pub mod Triangle
pub mod Private
