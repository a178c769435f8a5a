-- The definitions of crate `partner`.
pub mod Partner
