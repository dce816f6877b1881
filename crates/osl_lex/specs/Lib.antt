pub mod Scan
pub mod Signs
pub mod Value
pub mod Pieces
pub mod Readings
