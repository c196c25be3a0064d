-- The laws of the classic oscillator.
pub mod Turned
pub mod Keeping
pub mod Samples
pub mod Places
pub mod Calls
pub mod Courses
pub mod Phase
pub mod Free
pub mod Tight
