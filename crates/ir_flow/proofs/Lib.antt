pub mod Stops
pub mod Members
pub mod Passing
pub mod Visiting
pub mod Searched
pub mod Using
