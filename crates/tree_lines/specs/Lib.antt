pub mod Words
pub mod Variables
pub mod Nodes
pub mod Laws
