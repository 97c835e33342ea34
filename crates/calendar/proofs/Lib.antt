pub mod FirstYears
mod Steps
mod Lists
mod Adjacent
