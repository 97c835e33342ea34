mod Signs
pub mod Judged
