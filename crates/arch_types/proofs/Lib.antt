pub mod TreeRows
pub mod Once
pub mod Preorder
pub mod Numbered
pub mod PreorderRows
pub mod Uses
