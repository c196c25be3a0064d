-- The laws of crossings, without a reset and with one.
pub mod Totals
pub mod CrossingLoop
pub mod OneByOne
pub mod CrossingsWrap
pub mod CrossingsReset
pub mod In01
pub mod AsHeard
pub mod Tight
pub mod Passes
