pub mod Fields
mod Shows
pub mod Nodes
pub mod Sizes
pub mod Stand
pub mod Steps
