mod Groups
mod Ranks
mod Counts
mod Placing
mod Orders
mod Stages
mod Finished
