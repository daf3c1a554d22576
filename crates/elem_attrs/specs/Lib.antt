pub mod Attributes
pub mod Numbers
