-- The NES triangle, from the source's oscillator/nes_triangle_oscillator.rs: the depth of a call, one sample, and the whole call.
pub mod State
pub mod Depth
pub mod Sample
pub mod Block
pub mod Private
