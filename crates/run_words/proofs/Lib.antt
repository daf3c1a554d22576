pub mod First
pub mod Joined
pub mod Rest
