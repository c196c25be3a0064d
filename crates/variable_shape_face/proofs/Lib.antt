-- Two outcomes of a call coincide.
pub mod Tight
