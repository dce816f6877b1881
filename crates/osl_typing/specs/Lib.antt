pub mod Says
pub mod Pieces
