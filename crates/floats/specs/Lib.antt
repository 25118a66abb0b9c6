-- The definitions that contracts cite. Their laws are in proofs/.
pub mod F32
pub mod Steps
pub mod Pattern
pub mod Sign
pub mod Floor
pub mod Casts
pub mod Sqrt
pub mod Exp2
pub mod Promises
