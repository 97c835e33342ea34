pub mod Least
pub mod Phases
