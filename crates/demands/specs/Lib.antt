-- The demands of the request as statements, each for any oscillator.
pub mod Demand1
pub mod Demand2
pub mod Demand3
pub mod Late
pub mod Classic
pub mod Words
