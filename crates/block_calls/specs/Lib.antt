-- The definitions of crate `block_calls`.
pub mod Block
