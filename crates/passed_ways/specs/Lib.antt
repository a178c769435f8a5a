-- The definitions of crate `passed_ways`.
pub mod Listing
pub mod Story
