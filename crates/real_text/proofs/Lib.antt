pub mod NetNames
pub mod Ordering
pub mod Along
pub mod OneReal
pub mod AtomNames
