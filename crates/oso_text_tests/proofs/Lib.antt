pub mod Words
mod Refused
mod Canonical
