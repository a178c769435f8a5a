-- The laws of crate `standing`.
pub mod Codes
pub mod Loops
pub mod Facts
