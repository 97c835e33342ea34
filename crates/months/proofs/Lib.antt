pub mod Starts
mod Table
