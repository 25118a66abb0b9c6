-- The definitions that contracts cite. Their laws are in proofs/.
pub mod Refusal
pub mod Call
pub mod Numbers
