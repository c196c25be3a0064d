-- What a record makes of the six states, and its samples in a lent buffer.
pub mod Bank
pub mod Lent
pub mod Private
