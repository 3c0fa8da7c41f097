pub mod Runs
pub mod Narrow
pub mod Laws
