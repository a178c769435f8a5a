-- The definitions of crate `plan`.
pub mod Limits
pub mod Judging
pub mod Links
pub mod Outline
pub mod Record
