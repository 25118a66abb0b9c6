-- The definitions that contracts cite. Their laws are in proofs/.
pub mod Edge
pub mod Quantise
pub mod Map
pub mod Sums
pub mod Power
pub mod Setting
