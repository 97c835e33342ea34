pub mod Headers
pub mod Chunks
pub mod Stops
pub mod Ends
