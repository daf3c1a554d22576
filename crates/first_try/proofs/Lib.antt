pub mod Edges
pub mod Options
pub mod Trails
