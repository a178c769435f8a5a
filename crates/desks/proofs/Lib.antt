-- The laws of crate `desks`.
pub mod Laws
