pub mod Tops
pub mod LineNets
pub mod Moves
pub mod PinMoves
pub mod Going
