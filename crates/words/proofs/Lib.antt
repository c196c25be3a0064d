-- Calls and whole numbers put into words.
pub mod Signs
pub mod Faces
pub mod Tight
