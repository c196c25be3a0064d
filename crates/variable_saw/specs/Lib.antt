-- The variable saw, from the source's oscillator/variable_saw_oscillator.rs: one sample, the whole call, and the figures.
pub mod State
pub mod Sample
pub mod Block
pub mod Private
pub mod Figures
