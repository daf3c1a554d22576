pub mod Reading
pub mod OneTree
pub mod TaskNames
