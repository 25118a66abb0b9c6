-- The definitions that contracts cite. Their laws are in proofs/.
pub mod Lane
pub mod Maths
pub mod Word
pub mod Numbers
