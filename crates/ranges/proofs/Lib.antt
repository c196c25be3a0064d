-- Tests that all pass, where targets lie, and contracts that determine.
pub mod AllOf
pub mod TargetRanges
pub mod Tight
