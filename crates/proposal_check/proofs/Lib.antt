pub mod Lists
pub mod Named
mod Together
mod SidePlaces
mod Sums
mod LastRanks
pub mod Checks
pub mod SoundLegs
