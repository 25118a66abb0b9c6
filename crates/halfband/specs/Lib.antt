-- The half-band decimator: the definitions that contracts cite. Their laws are in proofs/.
pub mod Halfband
pub mod Floats
pub mod Refusal
pub mod Promises
pub mod Decimated
pub mod Ranges
