-- The definitions of crate `event_lines`.
pub mod Line
