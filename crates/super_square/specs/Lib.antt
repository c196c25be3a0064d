-- The super square, from the source's oscillator/super_square_oscillator.rs: one sample, and the whole call.
pub mod State
pub mod Sample
pub mod Block
pub mod Private
