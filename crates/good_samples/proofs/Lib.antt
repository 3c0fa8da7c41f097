pub mod Calling
pub mod Known
pub mod Refining
