pub mod Ways
pub mod Telling
pub mod Owners
pub mod Blocks
pub mod Steps
pub mod Answers
