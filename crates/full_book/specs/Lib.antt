pub mod FullBook
