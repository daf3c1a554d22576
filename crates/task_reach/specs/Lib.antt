pub mod Gains
pub mod Valid
pub mod Reached
