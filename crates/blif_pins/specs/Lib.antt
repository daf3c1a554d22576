pub mod Keys
pub mod Pins
pub mod Ports
pub mod Seen
