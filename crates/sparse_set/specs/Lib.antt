pub mod Sets
pub mod Tied
