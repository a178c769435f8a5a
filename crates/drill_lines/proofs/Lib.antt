-- The laws of crate `drill_lines`.
pub mod PrintLaws
pub mod Refusals
