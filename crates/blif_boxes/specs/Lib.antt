pub mod Pins
pub mod Seen
