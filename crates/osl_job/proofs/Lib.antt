pub mod Cutting
pub mod Nodes
pub mod Ops
pub mod Reports
pub mod Tied
pub mod Turns
pub mod Verdicts
