-- The definitions that contracts cite. Their laws are in proofs/.
pub mod Strengths
pub mod Slope
