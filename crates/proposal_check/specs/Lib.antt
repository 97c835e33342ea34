-- The definitions that the promises of this crate use.
pub mod Legs
pub mod SidePlaces
pub mod Sums
pub mod LastRanks
