pub mod Words
pub mod Lines
pub mod Divisions
pub mod Forms
pub mod Seen
