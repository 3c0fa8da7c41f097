pub mod Joining
pub mod Readiness
