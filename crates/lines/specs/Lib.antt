-- The definitions of crate `lines`.
pub mod Form
pub mod Head
pub mod HeadFault
pub mod LineFault
pub mod Booking
pub mod Link
pub mod Bookings
pub mod Links
