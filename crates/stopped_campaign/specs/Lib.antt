-- The definitions of crate `stopped_campaign`.
pub mod Stopped
