pub mod Spelling
pub mod There
