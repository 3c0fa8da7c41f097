pub mod Fit
pub mod Groups
pub mod Joined
pub mod Laid
