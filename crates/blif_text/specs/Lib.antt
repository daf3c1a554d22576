pub mod Words
pub mod Rows
pub mod Boxes
pub mod Atoms
pub mod Text
