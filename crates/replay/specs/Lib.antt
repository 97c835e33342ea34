pub mod Surplus
pub mod Replay
