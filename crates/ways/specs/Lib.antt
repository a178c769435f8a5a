-- The definitions of crate `ways`.
pub mod WayText
pub mod Way
pub mod Ways
