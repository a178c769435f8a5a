-- The definitions of crate `network`.
pub mod Network
pub mod FromPlan
