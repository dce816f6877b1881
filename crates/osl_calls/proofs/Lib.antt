pub mod Candidates
pub mod Names
pub mod Least
pub mod Apart
pub mod Passed
pub mod Tables
pub mod Meanings
pub mod SameKinds
