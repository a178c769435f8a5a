-- The laws of crate `bounded`.
pub mod Bools
pub mod Tests
pub mod First
pub mod Sums
pub mod Lists
pub mod Loops
pub mod Sought
pub mod Extreme
pub mod Filled
pub mod Arrays
