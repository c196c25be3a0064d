-- The claims over the three tables, and of the Drift figure.
pub mod Figures
pub mod Classic
pub mod Late
pub mod Drift
