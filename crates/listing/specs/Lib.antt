pub mod Sizes
pub mod Lines
pub mod Pieces
pub mod Exact
