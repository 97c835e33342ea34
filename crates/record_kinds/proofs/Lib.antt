pub mod ByKind
pub mod EachKind
