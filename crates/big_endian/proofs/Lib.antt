pub mod Numbers
pub mod Widths
