pub mod Rows
pub mod Found
pub mod Placed
pub mod Whole
