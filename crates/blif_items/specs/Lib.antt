pub mod Items
pub mod Params
pub mod Pins
pub mod Rows
pub mod Seen
