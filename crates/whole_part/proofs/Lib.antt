-- What the bits of a float say of its whole part, and what it is where no bits are asked.
pub mod Exact
pub mod Tested
pub mod Digits
pub mod Outside
pub mod Held
pub mod Tight
