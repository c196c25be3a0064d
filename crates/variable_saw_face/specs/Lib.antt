-- The variable saw's state as words, and its calls.
pub mod Words
