-- The definitions of crate `clear`.
pub mod Clear
