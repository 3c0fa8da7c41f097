pub mod Literals
pub mod Addresses
pub mod Operands
pub mod Causes
pub mod Same
pub mod Inits
pub mod Named
pub mod Globals
