-- The laws of crate `plan`.
pub mod Chains
pub mod LimitLaws
pub mod RecordLaws
pub mod Valid
