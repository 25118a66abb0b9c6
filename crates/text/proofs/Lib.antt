-- The laws of lines and of numbers, for the proofs of this crate and of those above it.
pub mod LineLaws
pub mod BufferLaws
pub mod NumberLaws
pub mod WordLaws
pub mod ReadLaws
pub mod CountLaws
pub mod ScanLaws
pub mod DecimalLaws
