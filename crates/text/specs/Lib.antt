-- The definitions that contracts cite, and of other ways to the same: a line in a buffer, a scan by bytes. Their laws are in proofs/.
pub mod Lines
pub mod Buffers
pub mod Decimal
pub mod Scan
