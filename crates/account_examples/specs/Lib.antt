pub mod TwoAccounts
pub mod Disagreements
