-- The definitions of crate `guarantee`.
pub mod Answers
pub mod Machine
pub mod Calls
pub mod Counted
pub mod Demand
pub mod Guarantee
pub mod AnyOrder
