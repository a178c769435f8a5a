-- The laws of crate `settled_campaign`.
pub mod Lines
pub mod Bill
