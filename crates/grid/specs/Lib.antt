-- The layout of lent buffers: the definitions that contracts cite. Their laws are in proofs/.
pub mod Functions
pub mod Cells
pub mod Lanes
pub mod Runs
