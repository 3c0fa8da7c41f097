pub mod Code
pub mod Bytes
pub mod Items
pub mod Labels
pub mod Assembly
pub mod AssemblyLaws
