pub mod Bipartite
pub mod Inside
pub mod View
