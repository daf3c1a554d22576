pub mod Netlists
pub mod Valid
