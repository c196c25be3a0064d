-- The classic oscillator, from the source's oscillator/oscillator.rs: its shapes, the start, one sample, and the whole call.
pub mod Shapes
pub mod State
pub mod Start
pub mod Targets
pub mod Edges
pub mod Output
pub mod Sample
pub mod Block
pub mod Private
