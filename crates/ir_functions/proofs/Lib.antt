pub mod Shown
pub mod Forms
pub mod TreeShown
pub mod TreeForms
