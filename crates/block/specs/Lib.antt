-- What a call answers, counts and plays, for every oscillator.
pub mod Answers
pub mod Counting
pub mod Play
pub mod Calls
pub mod Checks
pub mod Oscillator
pub mod Limits
pub mod Account
pub mod Fit
pub mod Voices
