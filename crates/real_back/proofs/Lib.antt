pub mod Texts
pub mod Back
pub mod Named
pub mod There
