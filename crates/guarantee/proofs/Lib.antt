-- The laws of crate `guarantee`.
pub mod Numbers
pub mod Change
pub mod Switch
pub mod Reply
pub mod Next
pub mod Start
pub mod Potential
pub mod Moved
pub mod Ends
pub mod Bytes
pub mod Whole
pub mod Plans
pub mod Rearranged
pub mod AnyOrder
