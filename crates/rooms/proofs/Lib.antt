-- The laws of rooms and of the walk, of the tests that spare it, and of a session that needs neither.
pub mod RangeLaws
pub mod Walks
pub mod Places
pub mod Padding
pub mod Nowhere
pub mod Kept
pub mod Guard
pub mod Session
pub mod Tight
