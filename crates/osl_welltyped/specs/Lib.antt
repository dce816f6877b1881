pub mod KindOf
pub mod Kinded
pub mod StatementsFit
pub mod Measures
pub mod WellTyped
pub mod Agreement
