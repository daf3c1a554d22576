pub mod Files
pub mod OneFile
