pub mod Fields
pub mod Words
pub mod Word
pub mod Examples
