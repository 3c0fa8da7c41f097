pub mod Sound
pub mod Steps
pub mod Passes
pub mod Shelf
