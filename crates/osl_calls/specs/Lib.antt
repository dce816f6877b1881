pub mod Lines
pub mod Named
pub mod Table
pub mod Roots
pub mod Calling
