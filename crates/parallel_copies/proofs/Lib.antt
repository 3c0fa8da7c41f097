mod Parallel
mod Circles
mod Picking
mod Naming
mod Edging
mod Heading
