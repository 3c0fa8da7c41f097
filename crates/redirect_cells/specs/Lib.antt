pub mod Kept
pub mod Keeping
pub mod Plans
pub mod Gathered
pub mod Opened
