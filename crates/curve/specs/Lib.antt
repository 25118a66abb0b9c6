-- The definitions that contracts cite. Their laws are in proofs/.
pub mod Curve
pub mod Answers
