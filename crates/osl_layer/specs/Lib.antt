pub mod Globals
pub mod Laws
pub mod Layer
