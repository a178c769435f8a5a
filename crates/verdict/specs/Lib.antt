-- The definitions of crate `verdict`.
pub mod Check
pub mod Parts
