pub mod Maps
pub mod Put
pub mod Heads
pub mod Wholes
pub mod Closing
pub mod Adding
