pub mod Play
pub mod Formed
pub mod Refines
pub mod Legal
pub mod Laws
