pub mod Weights
pub mod Primitives
pub mod Parts
pub mod Walk
