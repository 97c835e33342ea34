pub mod Numbers
pub mod Tests
pub mod Sound
pub mod Columns
pub mod InTurn
pub mod BookPlaces
