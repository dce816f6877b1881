pub mod FirstLine
mod Worked
