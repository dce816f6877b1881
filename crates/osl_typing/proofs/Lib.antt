pub mod SameKinds
pub mod Arguments
pub mod Indices
