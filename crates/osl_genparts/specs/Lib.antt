pub mod Made
pub mod Calm
pub mod Insides
pub mod Promises
