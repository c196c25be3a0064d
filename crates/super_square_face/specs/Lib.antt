-- The super square's state as words, and its calls.
pub mod Words
