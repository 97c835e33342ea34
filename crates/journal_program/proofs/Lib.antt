pub mod Ending
pub mod Turning
pub mod Running
