pub mod Frame
pub mod Code
pub mod Assembly
pub mod Stands
pub mod Laws
pub mod Samples
