-- The laws of crate `verdict`.
pub mod Facts
pub mod Pass
pub mod Parts
pub mod Listed
pub mod Exits
pub mod Places
pub mod Refuges
