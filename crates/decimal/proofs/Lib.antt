-- The laws of crate `decimal`.
pub mod Bytes
pub mod Laws
pub mod Stores
pub mod Fields
pub mod Numbers
pub mod Rows
