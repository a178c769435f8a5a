-- The definitions of crate `journal_calls`.
pub mod Journal
pub mod Restart
