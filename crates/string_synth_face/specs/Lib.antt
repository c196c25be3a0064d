-- The string synth's state as words, and its calls.
pub mod Words
