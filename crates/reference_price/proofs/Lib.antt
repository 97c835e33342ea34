pub mod BestPrices
pub mod Ggfs
mod Blocks
