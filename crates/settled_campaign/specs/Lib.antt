-- The definitions of crate `settled_campaign`.
pub mod Bill
