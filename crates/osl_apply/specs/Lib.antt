pub mod Slots
pub mod Operands
pub mod Elements
