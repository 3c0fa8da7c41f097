mod Bounds
mod Views
