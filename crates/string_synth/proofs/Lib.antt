-- The laws of the string synth.
pub mod Registrations
pub mod Octaves
pub mod Segments
pub mod Stays
pub mod Keeping
pub mod Calls
pub mod Gains
pub mod Courses
pub mod Phase
pub mod Tight
pub mod Shifts
pub mod Accepted
