pub mod Again
pub mod Cut
pub mod Numbers
pub mod Pairs
pub mod Rounds
mod Worked
