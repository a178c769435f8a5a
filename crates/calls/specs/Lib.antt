-- The definitions of crate `calls`.
pub mod Calls
pub mod Refusals
