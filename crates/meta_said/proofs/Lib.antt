pub mod Firsting
pub mod Stepping
pub mod Meaning
