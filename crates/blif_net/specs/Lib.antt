pub mod Laws
pub mod Netlists
