pub mod Joined
pub mod Needs
pub mod Valid
