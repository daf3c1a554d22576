pub mod Adding
pub mod Rows
pub mod Walking
pub mod Meaning
