pub mod Listing
pub mod Making
