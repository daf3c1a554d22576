pub mod Room
pub mod Listed
