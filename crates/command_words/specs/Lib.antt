pub mod Shapes
pub mod Rules
pub mod Commands
pub mod Ranges
