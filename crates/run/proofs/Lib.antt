-- The laws of crate `run`.
pub mod Facts
pub mod Found
pub mod Cases
pub mod SoundTest
pub mod Steps
pub mod Exits
pub mod Codes
pub mod Wide
