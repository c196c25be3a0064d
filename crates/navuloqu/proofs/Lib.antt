-- Two outcomes of an exported function coincide.
pub mod Tight
