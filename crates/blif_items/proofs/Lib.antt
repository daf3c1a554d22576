mod Elements
mod Mixing
mod Placed
mod Putting
