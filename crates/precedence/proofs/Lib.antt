-- The laws of crate `precedence`.
pub mod Steps
pub mod Four
pub mod Chains
