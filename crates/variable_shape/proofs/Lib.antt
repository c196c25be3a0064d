-- The laws of the variable shape.
pub mod Edges
pub mod Free
pub mod Samples
pub mod Keeping
pub mod Places
pub mod Calls
pub mod Courses
pub mod Phase
pub mod In01
pub mod Tight
pub mod TightMasterPhase
