-- The definitions of crate `settle_run`.
pub mod Settled
