pub mod Numbers
pub mod Values
pub mod Widens
pub mod Work
pub mod Weights
pub mod Registers
pub mod Blocks
pub mod Sound
mod Refining
mod Written
mod Forms
mod Formed
mod Samples
