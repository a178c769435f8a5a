-- The laws of crate `network`.
pub mod Facts
pub mod Plans
pub mod Letters
pub mod Links
pub mod Desks
