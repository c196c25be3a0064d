-- Words that are refused, and: two outcomes of a call coincide.
pub mod BadWords
pub mod Tight
