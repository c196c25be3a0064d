-- What the test programs share: words, lines, a checksum and turns.
pub mod Words
pub mod Text
pub mod Sums
pub mod Turns
