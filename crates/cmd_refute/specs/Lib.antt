pub mod Lines
pub mod Refute
pub mod Valid
