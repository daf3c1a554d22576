pub mod Cost
pub mod Task
pub mod Rects
pub mod Board
pub mod Grid
pub mod Search
