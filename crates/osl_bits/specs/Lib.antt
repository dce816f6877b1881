pub mod Bits
pub mod Row
pub mod Words
