-- The definitions of crate `settle_calls`.
pub mod Settle
pub mod Shown
pub mod Refusals
