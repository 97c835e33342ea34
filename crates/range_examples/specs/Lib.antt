pub mod Damage
pub mod Fresh
pub mod Lengths
pub mod Records
pub mod Headers
pub mod Writers
