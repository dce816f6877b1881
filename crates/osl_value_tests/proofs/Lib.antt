pub mod Words
mod Ints
mod Floats
mod Geometry
mod Texts
mod Types
