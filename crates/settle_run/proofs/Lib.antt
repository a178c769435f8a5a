-- The laws of crate `settle_run`.
pub mod SettledLaws
