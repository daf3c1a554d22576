pub mod Cuts
pub mod Indexing
pub mod Forming
pub mod Siding
pub mod Spelling
pub mod Lining
