-- The laws of crate `join`.
pub mod Pairs
pub mod Rows
pub mod Joining
pub mod Entries
pub mod ValidJoin
pub mod Parts
pub mod Clean
pub mod Group
pub mod Passing
