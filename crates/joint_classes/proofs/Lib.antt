pub mod Pushing
pub mod Spreading
pub mod Tables
pub mod Classing
