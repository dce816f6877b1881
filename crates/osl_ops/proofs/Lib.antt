pub mod Components
pub mod Wrapping
