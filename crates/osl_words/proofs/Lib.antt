pub mod ClapTurns
pub mod Commands
pub mod Jobs
pub mod Numbers
pub mod Rows
pub mod Serial
