pub mod Taken
pub mod Printed
pub mod LegLines
pub mod Accepted
