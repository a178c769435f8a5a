-- The laws of crate `files`.
pub mod ReadsLaws
