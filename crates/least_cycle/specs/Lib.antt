pub mod Cycles
pub mod Answer
pub mod Walks
pub mod Components
pub mod Spreads
