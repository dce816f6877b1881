pub mod Adds
pub mod Above
pub mod FileParts
pub mod Constancy
pub mod BodyParts
