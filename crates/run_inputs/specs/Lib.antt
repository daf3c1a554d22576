pub mod Architectures
pub mod Valid
