pub mod Comment
pub mod Lines
