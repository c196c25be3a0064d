-- The laws of lines and lists.
pub mod Digits
pub mod Loop
pub mod Lists
pub mod Handing
pub mod Tight
