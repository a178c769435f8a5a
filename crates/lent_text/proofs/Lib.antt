-- The laws of crate `lent_text`.
pub mod Room
