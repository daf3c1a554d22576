pub mod Closing
pub mod Settled
pub mod Left
pub mod Reading
