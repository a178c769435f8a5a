-- The laws of crate `told_campaign`.
pub mod Declined
pub mod Told
