pub mod Chained
mod Conditions
pub mod Decoding
mod Examples
pub mod Firsts
pub mod Fitting
pub mod Lasting
pub mod Loops
pub mod Members
pub mod Naming
pub mod Nested
mod Opening
mod OpeningOps
mod Places
mod RangeLoop
mod RangeWalk
mod Replicated
mod SectionWalk
mod Stacks
pub mod Staying
pub mod Steady
pub mod Tiled
pub mod TypedRuns
pub mod TypedStart
pub mod Uses
pub mod Validity
mod Walked
