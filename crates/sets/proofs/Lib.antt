-- The laws of crate `sets`.
pub mod Members
pub mod Gather
pub mod Facts
pub mod Operations
pub mod Whole
pub mod Insert
pub mod Walk
pub mod Moved
