-- The definitions that contracts cite. Their laws are in proofs/.
pub mod Lane
pub mod Promises
pub mod Frames
pub mod Plain
pub mod Slices
