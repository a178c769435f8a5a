-- The laws of crate `clear`.
pub mod Verdicts
pub mod ClearLaws
pub mod PlanRead
