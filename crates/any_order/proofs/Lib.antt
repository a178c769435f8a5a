-- The laws and the theorem of crate `any_order`.
pub mod Blocks
pub mod Replies
pub mod AnyOrder
