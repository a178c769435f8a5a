-- The definitions of crate `lent_text`.
pub mod Room
