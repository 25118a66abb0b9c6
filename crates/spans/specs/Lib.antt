-- The spans of a block: the definitions that contracts cite. Their laws are in proofs/.
pub mod Slopes
pub mod Refusal
pub mod Asked
pub mod Promises
pub mod Prepared
