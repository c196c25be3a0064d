-- The variable shape, from the source's oscillator/variable_shape_oscillator.rs: its waveform, one sample, the whole call, and the sample of 01's figure P10.
pub mod State
pub mod Waveform
pub mod Sample
pub mod Block
pub mod MasterPhase
pub mod Figures
pub mod Private
