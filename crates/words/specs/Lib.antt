-- What a call from another language leaves.
pub mod Face
