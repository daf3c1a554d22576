pub mod Held
pub mod Fields
pub mod Sizes
pub mod Reaches
pub mod Tables
