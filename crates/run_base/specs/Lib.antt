pub mod Statuses
pub mod Worlds
pub mod Stops
pub mod Prints
pub mod Outputs
