pub mod Journal
pub mod Trips
