pub mod Values
pub mod SelectedTypes
pub mod LeafRows
pub mod LeafTypes
pub mod LeafKinds
pub mod PartTypes
pub mod KindTests
pub mod NodeTypes
pub mod CallTypes
pub mod ExpressionTypes
pub mod InitTypes
pub mod StatementTypes
pub mod FunctionTypes
pub mod LayerTypes
pub mod ConstantValues
pub mod MadeValues
pub mod MetadataTypes
mod Examples
