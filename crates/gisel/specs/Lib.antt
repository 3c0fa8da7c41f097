pub mod Size
pub mod Good
