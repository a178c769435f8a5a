-- The definitions of crate `any_order`.
pub mod Lines
pub mod AnyOrder
