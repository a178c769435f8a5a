-- The laws of crate `ways`.
pub mod ReadLaws
pub mod TextLaws
pub mod Members
pub mod WayRoundTrip
pub mod WayNumbers
pub mod WaysRoundTrip
pub mod Places
