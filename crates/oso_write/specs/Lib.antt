pub mod Names
pub mod Lines
pub mod Canon
pub mod Fits
