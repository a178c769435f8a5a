-- The definitions of crate `whole_campaign`.
pub mod Calls
pub mod Lists
pub mod Singly
pub mod Given
pub mod Whole
pub mod Play
