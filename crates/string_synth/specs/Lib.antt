-- The string synth, from the source's oscillator/string_synth_oscillator.rs: one sample, the targets of a block, and the whole call.
pub mod State
pub mod Sample
pub mod Targets
pub mod Block
pub mod Private
