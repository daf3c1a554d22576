pub mod Fronts
pub mod Entries
pub mod OneList
