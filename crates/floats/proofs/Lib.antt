-- The laws of binary32 that the oscillators' proofs cite.
pub mod Bools
pub mod Rounding
pub mod Values
pub mod Order
pub mod Held
pub mod Zeros
pub mod Signed
pub mod At
pub mod Ticks
pub mod PhaseSteps
pub mod Ranges
pub mod PowerOfTwo
pub mod WholeNumbers
pub mod Integers
pub mod Tightness
pub mod Nans
pub mod Tight
