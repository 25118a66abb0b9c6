-- The laws of the decimator, for the proofs of this crate and of those above it.
pub mod LocalLaws
pub mod ChainLaws
pub mod StageLaws
pub mod RefusalLaws
pub mod CascadeLaws
pub mod DecimatedLaws
pub mod Cuts
pub mod RangeLaws
pub mod Nothing
