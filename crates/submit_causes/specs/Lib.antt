-- The definitions that the promises of this crate use.
pub mod Fit
pub mod Causes
