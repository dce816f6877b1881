pub mod Least
pub mod Totals
pub mod Unique
