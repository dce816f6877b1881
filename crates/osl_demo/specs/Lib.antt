pub mod Draws
pub mod Texts
pub mod Files
pub mod Fold
