pub mod Numbering
pub mod Wires
pub mod Steps
pub mod Tables
pub mod Sound
pub mod Inside
