pub mod Literals
pub mod Parts
pub mod Code
pub mod Edges
pub mod Whole
pub mod Laws
