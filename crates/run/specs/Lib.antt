-- The definitions of crate `run`.
pub mod State
pub mod Orders
pub mod Replies
pub mod Codes
pub mod Sound
pub mod Bytes
