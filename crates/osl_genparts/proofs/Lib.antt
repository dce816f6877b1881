pub mod OwnSymbols
pub mod FoundConstants
pub mod CalmLaws
pub mod ReadyLater
pub mod Literals
