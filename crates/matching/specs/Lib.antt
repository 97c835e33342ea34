pub mod Crossing
pub mod Ranks
pub mod Deals
pub mod Matching
