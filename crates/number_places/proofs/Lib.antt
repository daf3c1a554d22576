pub mod Puts
pub mod Sorted
