-- The definitions that contracts cite. Their laws are in proofs/.
pub mod Controls
pub mod Places
pub mod Slices
