pub mod OneReading
pub mod Sounding
pub mod Thinning
pub mod Passing
pub mod Answering
pub mod Joining
