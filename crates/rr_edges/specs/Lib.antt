pub mod EdgeItems
pub mod FileEdges
pub mod Joints
pub mod Known
