pub mod Leading
pub mod Shown
pub mod Lists
pub mod One
