-- The variable shape's state as words, and its calls.
pub mod Words
