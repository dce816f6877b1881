pub mod Counts
pub mod Files
pub mod Views
pub mod Written
pub mod Failures
pub mod Memory
pub mod SystemErrors
