pub mod Words
mod Order
mod Loops
mod Calls
mod Starts
