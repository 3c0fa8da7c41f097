pub mod Narrow
pub mod Parts
pub mod Operations
pub mod Data
pub mod Blocks
pub mod Assembly
pub mod Forms
pub mod Laws
