-- The definitions that contracts cite. Their laws are in proofs/.
pub mod Mode
pub mod Stage
pub mod Table
pub mod Totals
pub mod Choice
