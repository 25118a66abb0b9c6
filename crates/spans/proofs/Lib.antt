-- The laws of the spans, for the proofs of this crate and of those above it.
pub mod ColumnLaws
pub mod FilledLaws
pub mod RefusalLaws
pub mod FasterLaws
pub mod PreparedLaws
pub mod Nothing
