-- The demands of the request, one file each.
pub mod Demand1
pub mod Demand2
pub mod Demand3
pub mod Late
pub mod Classic
pub mod Words
