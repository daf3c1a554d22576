pub mod Answered
pub mod Traced
pub mod Completed
