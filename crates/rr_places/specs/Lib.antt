pub mod Keyed
pub mod PinTexts
pub mod PinElems
pub mod Pins
pub mod Reading
pub mod Switches
pub mod Types
