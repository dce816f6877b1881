pub mod Flow
pub mod Rows
pub mod Table
pub mod Uses
pub mod Ways
