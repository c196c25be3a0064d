-- The stem of a job list: its sound, and what is answered for a rate and a list.
pub mod Sound
pub mod Compose
pub mod Private
