pub mod Tops
pub mod Orders
pub mod Pins
pub mod Queues
