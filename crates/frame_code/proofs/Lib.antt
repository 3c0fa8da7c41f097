pub mod Samples
pub mod Numbers
pub mod Operands
pub mod Placed
pub mod Standing
pub mod Short
pub mod Steps
pub mod Jumps
pub mod Edges
pub mod Blocks
pub mod Simple
pub mod Few
pub mod Labelled
mod Known
mod Data
mod Keeping
mod Accesses
mod Loops
mod Calls
pub mod Taking
mod Returning
mod Entering
mod Runs
pub mod Whole
