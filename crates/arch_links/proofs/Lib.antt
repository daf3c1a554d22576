pub mod Passing
pub mod Rows
pub mod Telling
pub mod Exact
