pub mod Written
pub mod Later
pub mod Fronts
