-- The definitions of crate `soundness`.
pub mod Parts
