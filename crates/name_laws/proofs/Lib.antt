pub mod Bytes
pub mod Steps
pub mod Pins
pub mod OneName
