-- The definitions of crate `drill_lines`.
pub mod Printed
pub mod Steps
