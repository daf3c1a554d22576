pub mod Searching
pub mod Lookups
pub mod Fitting
pub mod Rooting
pub mod Locating
pub mod Sides
