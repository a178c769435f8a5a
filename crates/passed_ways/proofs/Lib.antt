-- The laws of crate `passed_ways`.
pub mod LineLaws
pub mod StoryLaws
