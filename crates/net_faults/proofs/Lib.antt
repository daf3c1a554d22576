mod Making
mod Feeding
mod Looping
mod Facing
