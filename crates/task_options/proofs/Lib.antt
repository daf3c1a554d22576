mod Nexts
mod Pins
mod Counts
mod Follow
