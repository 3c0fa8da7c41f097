pub mod Lists
pub mod Usable
pub mod Rows
pub mod Typing
mod Arguments
mod Items
mod Wide
pub mod Sorted
pub mod WellFormed
