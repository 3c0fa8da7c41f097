pub mod TableQuick
pub mod EventQuick
pub mod Firsts
