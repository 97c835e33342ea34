pub mod Listings
pub mod Chunks
pub mod Stops
