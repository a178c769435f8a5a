-- The definitions of crate `bounded`.
pub mod Bounded
