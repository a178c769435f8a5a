-- The laws of crate `partner`.
pub mod Verdicts
