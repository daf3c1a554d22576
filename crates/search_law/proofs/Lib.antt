pub mod Inputs
pub mod Leaves
pub mod Modes
pub mod Ready
pub mod Realising
