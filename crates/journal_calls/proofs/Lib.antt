-- The laws of crate `journal_calls`.
pub mod Lines
pub mod Replaying
pub mod Exits
