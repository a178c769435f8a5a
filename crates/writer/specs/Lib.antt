-- The definitions of crate `writer`.
pub mod Written
pub mod ReadBack
