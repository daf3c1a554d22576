pub mod Named
pub mod Graphs
pub mod Read
pub mod Faultless
pub mod Calm
