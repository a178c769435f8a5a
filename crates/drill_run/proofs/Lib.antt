-- The laws of crate `drill_run`.
pub mod DrillLaws
