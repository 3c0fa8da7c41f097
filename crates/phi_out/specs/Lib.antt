pub mod Lowered
pub mod Lowering
