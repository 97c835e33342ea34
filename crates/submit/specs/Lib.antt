pub mod Deals
pub mod Placing
