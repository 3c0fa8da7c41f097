pub mod Types
pub mod Values
pub mod Instructions
pub mod Modules
