-- What a read comes to.
pub mod Input
