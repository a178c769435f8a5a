-- The definitions of crate `drill_run`.
pub mod Drilled
