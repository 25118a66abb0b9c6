-- The definitions that contracts cite, and what a plan's numbers mean for block runs. Their laws are in proofs/.
pub mod Sums
pub mod Counting
pub mod Plan
pub mod OneRange
pub mod Reads
pub mod Sizes
pub mod Planned
