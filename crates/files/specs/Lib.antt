-- The definitions of crate `files`.
pub mod Reads
