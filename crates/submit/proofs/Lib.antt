pub mod Kept
pub mod Lines
pub mod Heads
pub mod Orders
pub mod Trading
pub mod OrderBooked
pub mod Accepted
pub mod Applied
