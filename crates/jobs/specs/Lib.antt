-- A job record: its words, which kind uses which bytes, and what it asks for.
pub mod Words
pub mod Fields
pub mod Kinds
pub mod Record
