-- The laws of crate `calls`.
pub mod Places
pub mod Exits
pub mod FirstAnswer
pub mod InOrder
pub mod Within
