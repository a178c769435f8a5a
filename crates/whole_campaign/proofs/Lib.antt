-- The laws of crate `whole_campaign`.
pub mod Lists
pub mod Parts
pub mod Whole
pub mod Given
pub mod Playing
