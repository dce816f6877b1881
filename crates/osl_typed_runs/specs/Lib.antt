pub mod Typed
pub mod Parameters
pub mod Laws
