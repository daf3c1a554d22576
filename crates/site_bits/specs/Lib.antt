pub mod Paths
pub mod Choices
pub mod Fields
pub mod Laws
