pub mod Pieces
pub mod Statements
pub mod Canon
pub mod Reading
pub mod Seen
pub mod Fits
pub mod Whole
