-- The laws of crate `lines`.
pub mod FormLaws
pub mod HeadLaws
pub mod BookingLaws
pub mod LinkLaws
pub mod BookingsLaws
pub mod LinksLaws
pub mod Lengths
pub mod RoundTrip
pub mod AllLines
pub mod Places
pub mod OverHead
