pub mod Priority
