pub mod Functions
pub mod Causes
pub mod TreeCauses
