pub mod Events
pub mod Demand3
