pub mod Calls
pub mod Counts
pub mod MapFiles
pub mod OneFile
