-- The whole part of a float.
pub mod WholePart
