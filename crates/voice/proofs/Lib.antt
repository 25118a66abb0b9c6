-- The laws of the two stages, for the crates above.
pub mod Counts
pub mod NoState
pub mod NotOwn
pub mod NotWave
pub mod Offsets
pub mod Powers
pub mod SumRunLaws
