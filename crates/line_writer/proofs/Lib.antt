-- The laws of crate `line_writer`.
pub mod WriteLaws
