pub mod Frame
pub mod Map
