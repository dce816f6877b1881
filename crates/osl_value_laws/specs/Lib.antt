pub mod Order
pub mod Strings
pub mod Matrices
