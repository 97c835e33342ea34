pub mod Turning
pub mod Endings
