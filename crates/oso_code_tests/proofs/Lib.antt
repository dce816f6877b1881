pub mod Words
mod Names
mod Runs
mod Flaws
mod Owners
mod OperandTypes
mod Limits
