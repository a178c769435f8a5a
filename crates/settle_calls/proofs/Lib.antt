-- The laws of crate `settle_calls`.
pub mod Rated
pub mod Exits
pub mod Accepted
pub mod Shown
