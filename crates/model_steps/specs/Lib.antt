pub mod Items
pub mod Fits
pub mod Keeps
pub mod Laws
