-- The laws of crate `event_lines`.
pub mod LineLaws
