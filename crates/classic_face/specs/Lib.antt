-- The classic oscillator's state as words, and its calls.
pub mod Words
pub mod Private
