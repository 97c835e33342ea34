pub mod OpenDays
