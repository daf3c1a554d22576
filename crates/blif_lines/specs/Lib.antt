pub mod Lines
pub mod Physical
pub mod Seen
pub mod Words
