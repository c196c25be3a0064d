-- The NES triangle's state as words, and its calls.
pub mod Words
