pub mod Values
pub mod Play
pub mod Machine
pub mod Refines
pub mod Laws
