pub mod Values
pub mod Lock
pub mod Kept
pub mod Itself
pub mod Samples
pub mod Places
pub mod Forms
