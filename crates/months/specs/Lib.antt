pub mod Bounds
pub mod Spans
