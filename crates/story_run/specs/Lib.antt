-- The definitions of crate `story_run`.
pub mod Told
