pub mod Code
pub mod Constant
pub mod Layout
pub mod Runs
