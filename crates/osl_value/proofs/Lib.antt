mod Examples
pub mod GivesValues
pub mod Identities
pub mod InRange
pub mod Kept
pub mod OpNames
pub mod Roots
pub mod SameTypes
pub mod Seen
pub mod TableLaws
pub mod Unweighted
