pub mod Faults
pub mod Keywords
pub mod Nets
pub mod Seen
pub mod Statements
pub mod Written
