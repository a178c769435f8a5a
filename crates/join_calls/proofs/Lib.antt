-- The laws of crate `join_calls`.
pub mod Read
pub mod Sheets
pub mod Groupings
pub mod Exits
