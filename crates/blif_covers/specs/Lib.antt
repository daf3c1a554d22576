pub mod Covers
pub mod Rows
pub mod Seen
