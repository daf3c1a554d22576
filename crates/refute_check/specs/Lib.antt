pub mod Rooms
pub mod Tied
