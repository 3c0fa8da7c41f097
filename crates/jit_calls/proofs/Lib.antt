pub mod Refused
pub mod Exact
pub mod Repeat
pub mod Places
pub mod Split
pub mod Given
pub mod Listing
