pub mod Joined
pub mod AtomNames
pub mod Written
pub mod Nodes
pub mod Names
