-- The laws and theorems of crate `stopped_campaign`.
pub mod OneLine
pub mod Blocks
pub mod Replays
pub mod OpenOrders
pub mod Stopped
