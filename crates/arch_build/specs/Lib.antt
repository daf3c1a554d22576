pub mod NamePlaces
pub mod Said
