pub mod Shapes
pub mod Ranges
pub mod Types
pub mod Calls
pub mod Phis
pub mod Small
pub mod Verdict
pub mod Laws
