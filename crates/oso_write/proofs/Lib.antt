pub mod Texts
pub mod ValidParts
pub mod Worked
