-- The laws of the table of refusals and of lengths, for the proofs of this crate and of those above it.
pub mod LineLaws
pub mod LengthLaws
pub mod SearchLaws
