pub mod Room
pub mod Stages
pub mod Chunks
