pub mod Faults
pub mod RecordFaults
pub mod FieldPlaces
pub mod SpanDays
pub mod Goings
pub mod Fronts
pub mod HeaderSizes
pub mod HeaderFaults
