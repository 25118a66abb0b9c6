-- The definitions that contracts cite. Their laws are in proofs/.
pub mod Lane
pub mod Refusal
pub mod ReadsCall
pub mod SampleCall
pub mod Taken
