pub mod EachWord
pub mod Edges
pub mod Said
pub mod OneNode
pub mod Behind
