pub mod Overlap
pub mod FirstFit
pub mod Steps
