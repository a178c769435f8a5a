-- The definitions of crate `sets`.
pub mod Sets
pub mod Rising
