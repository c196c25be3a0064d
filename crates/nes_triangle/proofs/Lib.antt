-- The laws of the NES triangle.
pub mod Depths
pub mod Stepping
pub mod Silent
pub mod Reaching
pub mod Keeping
pub mod Held
pub mod Calls
pub mod Courses
pub mod Phase
pub mod Tight
