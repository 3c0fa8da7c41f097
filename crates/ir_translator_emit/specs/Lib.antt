pub mod Maps
pub mod Written
pub mod Sums
pub mod Jumps
pub mod Forms
