pub mod RecordFields
pub mod HeaderFields
pub mod Trips
pub mod Examples
