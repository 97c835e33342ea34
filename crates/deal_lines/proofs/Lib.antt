pub mod Booked
pub mod Takes
