-- The laws of a glide, and contracts that determine.
pub mod Errors
pub mod Climb
pub mod Increment
pub mod Glide
pub mod AboveZero
pub mod EitherSign
pub mod Tight
