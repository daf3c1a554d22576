pub mod Models
pub mod Adds
pub mod Refusals
pub mod Lines
pub mod Atoms
pub mod Facts
