-- The definitions of crate `proved_flights`.
pub mod Flights
