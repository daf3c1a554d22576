pub mod Entering
pub mod Placing
pub mod Reading
pub mod Saying
pub mod Taking
