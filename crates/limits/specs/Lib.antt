-- The table of refusals and the lengths of buffers: the definitions that contracts cite. Their laws are in proofs/.
pub mod Lines
pub mod Lengths
pub mod Search
pub mod Refusals
