pub mod Best
pub mod Used
pub mod Running
pub mod Measures
pub mod Passes
pub mod Lows
pub mod Going
pub mod Totals
