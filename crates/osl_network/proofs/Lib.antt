mod Examples
pub mod InputsFit
