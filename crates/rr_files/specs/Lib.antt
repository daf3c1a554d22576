pub mod Accessing
pub mod Inside
pub mod Parts
pub mod Refusing
pub mod Saying
pub mod Sound
pub mod Telling
