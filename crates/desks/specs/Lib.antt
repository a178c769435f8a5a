-- The definitions of crate `desks`.
pub mod Desks
