pub mod Nets
pub mod Lines
pub mod Laws
