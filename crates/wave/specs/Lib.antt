-- Stems as WAV: a sample's number, the file's form, what is written of samples, and what is read back.
pub mod Pcm
pub mod Form
pub mod Write
pub mod Read
