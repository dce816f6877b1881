pub mod Arguments
pub mod Usage
pub mod Shade
pub mod Oslc
pub mod Demo
pub mod Words
