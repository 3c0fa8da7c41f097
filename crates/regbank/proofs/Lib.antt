mod Counting
mod Choosing
mod Samples
