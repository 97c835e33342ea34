pub mod Lists
pub mod Ints
pub mod Bits
pub mod Columns
