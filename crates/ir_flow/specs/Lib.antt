pub mod First
pub mod Limits
pub mod Flow
pub mod Search
pub mod Tree
pub mod Code
pub mod Assigned
