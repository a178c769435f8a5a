-- The definitions of crate `told_campaign`.
pub mod Told
