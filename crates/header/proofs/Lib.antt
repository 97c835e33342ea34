pub mod Headers
pub mod Trips
pub mod Columns
pub mod Readings
