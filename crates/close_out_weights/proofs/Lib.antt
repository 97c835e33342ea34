pub mod Still
mod DayWeights
pub mod ColumnFits
