pub mod Put
pub mod Sizes
pub mod Given
pub mod Adding
pub mod Left
