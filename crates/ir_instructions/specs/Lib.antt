pub mod BuiltIns
pub mod Counts
pub mod Instructions
pub mod Causes
