mod Ceilings
mod Levels
pub mod Dealt
mod Placed
mod Sums
