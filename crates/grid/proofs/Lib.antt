-- The laws of the layout, for the proofs of this crate and of those above it.
pub mod Index
pub mod FunctionLaws
pub mod TableLaws
pub mod RunLaws
pub mod CellLaws
pub mod EachLaws
pub mod OrderLaws
