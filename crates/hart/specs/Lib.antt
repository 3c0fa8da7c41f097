pub mod Places
pub mod Standing
pub mod Calls
pub mod Fixed
pub mod Right
pub mod Forms
pub mod Steps
