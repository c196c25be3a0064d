-- The laws of records.
pub mod EachKind
pub mod LongBlocks
pub mod Refused
pub mod Lending
pub mod Room
pub mod Tight
