-- The laws of crate `story_run`.
pub mod ToldLaws
