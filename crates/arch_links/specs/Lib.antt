pub mod First
pub mod Links
pub mod Sites
pub mod Laws
