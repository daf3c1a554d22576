pub mod Pairs
pub mod Makers
pub mod Sums
