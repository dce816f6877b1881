pub mod Kinds
pub mod Cost
pub mod Choice
pub mod Standing
