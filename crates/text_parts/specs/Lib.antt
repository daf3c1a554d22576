pub mod Numerals
pub mod Seen
pub mod Trims
pub mod Words
