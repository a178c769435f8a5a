-- The laws of crate `soundness`.
pub mod Tests
pub mod Listed
