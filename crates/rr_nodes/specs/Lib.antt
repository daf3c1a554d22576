pub mod Carriers
pub mod Gathering
pub mod Placing
pub mod Refusing
pub mod Saying
