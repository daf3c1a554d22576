pub mod Makers
pub mod Indices
pub mod Ranked
