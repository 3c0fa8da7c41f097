mod Placed
mod Doubling
mod Choosing
