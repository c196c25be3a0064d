-- The laws of the super square.
pub mod Edges
pub mod Samples
pub mod Keeping
pub mod Calls
pub mod Courses
pub mod Phase
pub mod In01
pub mod Tight
