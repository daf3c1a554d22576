pub mod Ends
pub mod Layouts
pub mod Looks
pub mod Roots
pub mod Tiles
