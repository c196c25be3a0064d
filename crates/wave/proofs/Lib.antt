-- The laws of a stem.
pub mod Rounded
pub mod Values
pub mod Signs
pub mod Bits
pub mod Held
pub mod Numbers
pub mod Putting
pub mod Ways
pub mod Gaps
pub mod Nearest
pub mod Ties
pub mod Monotone
pub mod Back
pub mod Tight
