pub mod Code
pub mod WellFormed
pub mod Live
pub mod Places
