-- The laws of crate `block_calls`.
pub mod Taking
pub mod Few
pub mod Exits
