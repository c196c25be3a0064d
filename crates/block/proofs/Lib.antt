-- The laws of blocks that hold for every oscillator.
pub mod Plays
pub mod Turns
pub mod InsideAt
pub mod Runs
pub mod Ways
pub mod Accounts
pub mod Blocks
pub mod Oscillators
pub mod AsHeard
pub mod Lengths
pub mod Contracts
pub mod Tight
