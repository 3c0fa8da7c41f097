pub mod Search
pub mod Scan
pub mod Laws
