-- The definitions of crate `standing`.
pub mod Standing
pub mod Ways
