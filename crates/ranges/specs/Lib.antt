-- What states and parameters lie within, and what a parameter becomes.
pub mod Ranges
pub mod Targets
