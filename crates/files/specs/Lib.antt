-- Patch files: the definitions that contracts cite. Their laws are in proofs/.
pub mod Format
pub mod Patch
pub mod Reader
pub mod Records
pub mod Latest
pub mod Writer
pub mod Card
