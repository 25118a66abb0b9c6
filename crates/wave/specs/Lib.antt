-- The definitions that contracts cite. Their laws are in proofs/.
pub mod Filter
pub mod Curve
pub mod Integral
pub mod Smooth
pub mod Slot
