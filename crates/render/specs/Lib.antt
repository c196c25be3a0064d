-- The renderer: a line, the whole text, and what looks like a text itself.
pub mod Line
pub mod Lists
pub mod Form
pub mod Private
