-- The laws of crate `passed_calls`.
pub mod Exits
pub mod Accepted
pub mod Shown
