-- The definitions of crate `passed_calls`.
pub mod Passed
pub mod Shown
