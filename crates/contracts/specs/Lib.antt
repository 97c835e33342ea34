pub mod InLedger
