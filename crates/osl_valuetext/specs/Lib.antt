pub mod Words
pub mod Splitting
pub mod Scan
pub mod Literals
pub mod Types
pub mod Identifiers
pub mod Spells
pub mod Unread
