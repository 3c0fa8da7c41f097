pub mod Bits
pub mod Standing
pub mod Arriving
pub mod Laid
pub mod Constants
pub mod Counts
pub mod Loops
pub mod Least
