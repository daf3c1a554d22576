pub mod Spelling
pub mod There
pub mod Laws
