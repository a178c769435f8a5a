-- The theorem of crate `proved_flights`.
pub mod Flights
