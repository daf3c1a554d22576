pub mod Steps
pub mod Order
pub mod Text
pub mod Laws
