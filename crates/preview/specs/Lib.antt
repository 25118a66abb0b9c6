-- The definitions that contracts cite. Their laws are in proofs/.
pub mod Points
pub mod Filtering
pub mod Shaping
pub mod Picture
pub mod Refusal
pub mod Drawn
