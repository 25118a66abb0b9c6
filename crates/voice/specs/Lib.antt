-- The definitions that contracts cite. Their laws are in proofs/.
pub mod PhaseRun
pub mod WaveRun
pub mod Power
pub mod SumRun
