pub mod Joins
pub mod Makers
pub mod Told
