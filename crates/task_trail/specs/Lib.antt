pub mod Decided
pub mod Tied
