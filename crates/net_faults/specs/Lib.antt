pub mod Drivers
pub mod Loops
pub mod Steps
pub mod Laws
