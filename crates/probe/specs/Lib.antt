-- The definitions that contracts cite. Their laws are in proofs/.
pub mod Leaves
pub mod Codes
pub mod Runs
pub mod Phases
pub mod Waves
pub mod Singles
